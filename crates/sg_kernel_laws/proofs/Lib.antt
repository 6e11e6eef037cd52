pub mod actor_lemmas
pub mod failure_lemmas
