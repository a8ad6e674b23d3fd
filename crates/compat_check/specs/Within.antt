-- Points within the range of the coordinates, those of a child, and a child's labels.
use Rattle.std.specs.Prelude.{ℕ, ℤ, pos, Bool, true, false, List, [], ◌∷◌, slice_index_or}
use Rattle.macro_file.specs.Limits.{AtMost}
use Rattle.compat_check.specs.Points.{Point, between}

-- neither coordinate is above 100,000 in size
abbrev pub IsWithin : Point → Type 0
IsWithin p = AtMost 4096000000000000000 p.0 × AtMost 4096000000000000000 p.1

abbrev pub corner : List Point → ℕ → Point
corner ps k = slice_index_or ps k (pos 0, pos 0)

-- the corners of a child: the parent's apex, an end of its refinement edge, and the middle
abbrev pub child_points : List Point → Bool → List Point
child_points ps false = corner ps 2 ∷ corner ps 0 ∷ between (corner ps 0) (corner ps 1) ∷ []
child_points ps true = corner ps 1 ∷ corner ps 2 ∷ between (corner ps 0) (corner ps 1) ∷ []

abbrev pub label_at : List ℤ → ℕ → ℤ
label_at ls k = slice_index_or ls k (pos 0)

-- the labels of a child, from those of its parent
abbrev pub labels_by : List ℤ → Bool → List ℤ
labels_by ls false = label_at ls 2 ∷ pos 0 ∷ label_at ls 1 ∷ []
labels_by ls true = pos 0 ∷ label_at ls 2 ∷ label_at ls 0 ∷ []
