-- What a map of marks says of each leaf.
use Rattle.std.specs.Prelude.{ℤ, unwrap_or}
use Rattle.std.specs.BTreeMap.{get}
use Rattle.mesh_names.specs.Names.{Name, name_cmp}
use Rattle.forest_plain.specs.declared.marks.Marks.{Marks}

-- the leaf's own mark, or that of every leaf
abbrev pub mark_in : Marks → Name → ℤ
mark_in marks n = unwrap_or (get name_cmp marks.single n) marks.every
