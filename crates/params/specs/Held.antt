-- What the code's table and parts hold, as the rules speak of them.
use Rattle.params.specs.declared
use Rattle.params.specs.Numbers.{Table, Parts, table_of, parts_of}

abbrev pub table_held : declared.Table.Table → Table
table_held t = table_of t.starts.now t.ends.now t.sizes.now t.features.now

abbrev pub parts_held : declared.Parts.Parts → Parts
parts_held p = parts_of p.sizes.now p.features.now
