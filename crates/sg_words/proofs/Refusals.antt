-- How the error of a parse is answered.
use Rattle.std.proofs.Common.{◌≡◌, ◌∙◌, inl, inr, Option, sym, subst, Err}
use Rattle.clap.specs.Words.{HasKind, IsAmong, Kinds, kind_of}
use Rattle.clap.specs.declared.error.Error.{Error}
use Rattle.clap.specs.declared.error.kind.ErrorKind.TheVariants.{DisplayHelp, DisplayVersion, OutOfMemory}
use Rattle.sg_words.specs.CommandLine as line
use Rattle.sg_words.specs.Views.{Answers, IsFaultOf}
use Rattle.sg_words.specs.declared.fault.WordsFault.{WordsFault}
use Rattle.sg_words.specs.declared.fault.WordsFault.TheVariants.{Help, Bad, Memory}

pub refused : (e : Error) (kinds : Kinds) (asked : Option line.Asked) (w : WordsFault) → HasKind kinds e → IsFaultOf (kind_of e) w → Answers kinds asked (Err w)
refused e kinds asked (Help text) (inl memory) (inl help) = let bad : OutOfMemory ≡ DisplayHelp = sym memory ∙ help in cc
refused e kinds asked (Help text) (inl memory) (inr version) = let bad : OutOfMemory ≡ DisplayVersion = sym memory ∙ version in cc
refused e kinds asked (Help text) (inr among) (inl help) = inl (subst (λ k. IsAmong k kinds) help among)
refused e kinds asked (Help text) (inr among) (inr version) = inr (subst (λ k. IsAmong k kinds) version among)
refused e kinds asked (Bad told text) (inl memory) is = absurd (is.3 (is.0 ∙ memory))
refused e kinds asked (Bad told text) (inr among) is = (subst (λ k. IsAmong k kinds) (sym is.0) among, is.1, is.2)
refused e kinds asked Memory h is = tt
