-- What a conforming forest has to hold with a name.
use Rattle.std.specs.Prelude.{Bool, List, ◌++◌, option_map, option_to_list}
use Rattle.mesh_names.specs.Names.{Name, parent_of}
use Rattle.mesh_names.specs.Partners.{Across, partner}

-- the parent of a name, and its partner, where there are such
abbrev pub names_above : Across → Name → List Name
names_above across n = option_to_list (option_map (λ (w : List Bool). (n.0, w)) (parent_of n.1)) ++ option_to_list (option_map (λ (m : Name × Bool). m.0) (partner across n.0 n.1))
