-- What a level of the code stands for.
use Rattle.off_tlv.specs.Grammar as grammar
use Rattle.off_tlv.specs.declared.levels.Level.{Level}
use Rattle.off_tlv.specs.declared.levels.Level.TheVariants.{File, Group, Part}

abbrev pub level_of : Level → grammar.Level
level_of File = grammar.in_file
level_of (Group outer) = grammar.in_group outer
level_of Part = grammar.in_part
