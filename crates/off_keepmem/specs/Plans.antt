-- The write that a change stands for.
use Rattle.off_defs.specs.declared.writes.Write.{Write}
use Rattle.off_defs.specs.declared.writes.Write.TheVariants as write
use Rattle.off_keepmem.specs.declared.planned.Change.{Change}
use Rattle.off_keepmem.specs.declared.planned.Change.TheVariants.{Put, Drop}

abbrev pub write_of : Change → Write
write_of (Put key row) = write.Put key row
write_of (Drop key) = write.Drop key
