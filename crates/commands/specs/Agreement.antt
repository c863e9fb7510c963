-- That both engines of the kind of address in use agree.
use Rattle.commands.specs.Stands.{Agreed}
use Rattle.commands.specs.declared.console.Engines.{Engines}
use Rattle.commands.specs.declared.console.Engines.TheVariants.{Ipv4, Ipv6}

-- table and list stand for the same
abbrev pub BothAgree : Engines → Type 0
BothAgree (Ipv4 p) = Agreed 32 p
BothAgree (Ipv6 p) = Agreed 128 p
