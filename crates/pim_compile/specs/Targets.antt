-- What is said of the programs for one target alone.
use Rattle.pim_isa.specs.declared.target.Target.{Target}
use Rattle.pim_isa.specs.declared.target.Target.TheVariants.{Magic, Plim}

-- it holds where the target is MAGIC
abbrev pub OnMagic : Target → Type 0 → Type 0
OnMagic Magic P = P
OnMagic Plim P = Unit {0}

-- it holds where the target is PLiM
abbrev pub OnPlim : Target → Type 0 → Type 0
OnPlim Magic P = Unit {0}
OnPlim Plim P = P
