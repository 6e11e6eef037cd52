-- Which rule a text breaks, by what its reader reports; none for bytes that aren't TOML, or if
-- memory runs out.
use Rattle.std.specs.Prelude.{Option, Some, None}
use Rattle.sg_platform.specs.declared.deployment.DeploymentFault.{DeploymentFault}
use Rattle.sg_platform.specs.declared.deployment.DeploymentFault.TheVariants as deployment
use Rattle.sg_platform.specs.declared.platform.PlatformFault.{PlatformFault}
use Rattle.sg_platform.specs.declared.platform.PlatformFault.TheVariants as platform
use Rattle.sg_toml_tree.specs.declared.fault.Fault.{Fault}
use Rattle.sg_toml_tree.specs.declared.fault.Kind.{Kind}
use Rattle.sg_toml_tree.specs.declared.fault.Kind.TheVariants as kind
use Rattle.sg_toml_tree.specs.declared.fault.Place.{Place}

abbrev pub broken_at : Place → Kind → Option Fault
broken_at place kind = Some (record { place = place; kind = kind })

abbrev pub platform_rule : PlatformFault → Option Fault
platform_rule platform.BadToml = None
platform_rule (platform.MissingKey place) = broken_at place kind.MissingKey
platform_rule (platform.WrongType place) = broken_at place kind.WrongType
platform_rule (platform.BadValue place) = broken_at place kind.BadValue
platform_rule (platform.BadName place) = broken_at place kind.BadName
platform_rule (platform.Duplicate place) = broken_at place kind.Duplicate
platform_rule (platform.Unknown place) = broken_at place kind.Unknown
platform_rule (platform.Limit place) = broken_at place kind.Limit
platform_rule platform.Memory = None

abbrev pub deployment_rule : DeploymentFault → Option Fault
deployment_rule deployment.BadToml = None
deployment_rule (deployment.MissingKey place) = broken_at place kind.MissingKey
deployment_rule (deployment.WrongType place) = broken_at place kind.WrongType
deployment_rule (deployment.BadValue place) = broken_at place kind.BadValue
deployment_rule (deployment.BadName place) = broken_at place kind.BadName
deployment_rule (deployment.Duplicate place) = broken_at place kind.Duplicate
deployment_rule (deployment.Unknown place) = broken_at place kind.Unknown
deployment_rule (deployment.Limit place) = broken_at place kind.Limit
deployment_rule (deployment.Function place) = broken_at place kind.Function
deployment_rule (deployment.Arguments place) = broken_at place kind.Arguments
deployment_rule deployment.Memory = None
