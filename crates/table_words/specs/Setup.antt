-- What the rule of a table knows: how large the table is, and how elements are named, by codes of names.
use Rattle.std.specs.Prelude.{◌≡◌, ℕ, ◌+◌, ◌-◌, ◌*◌, Bool, cond, eqb, ltb, ◌&&◌, [], ◌∷◌, option_map, true}
use Rattle.mesh_names.specs.Names.{Name, digit}
use Rattle.mesh_names.specs.Triangles.{Shape, size, level}
use Rattle.mesh_names.specs.Partners.{Across, Tells, partner}
use Rattle.mesh_names.specs.Patches.{owns}
use Rattle.table_words.specs.declared.layout.Layout.{Layout}
use Rattle.table_words.specs.NameWords.{name_code, name_word, name_in}

pub record Setup : Type 0 where
  -- how many rounds, macro elements and blocks there are, and how many readers' passes at once
  pub rounds : ℕ
  pub elements : ℕ
  pub pool : ℕ
  pub passes : ℕ
  -- how many pins of a round a load may show at most, so that one may be taken
  pub limit : ℕ
  -- the name of a macro element, and that of a child of a name
  pub top : ℕ → ℕ
  pub child : ℕ → Bool → ℕ
  -- the second member of the patch that the name leads, or 0
  pub mate : ℕ → ℕ
  -- the name leads its patch
  pub leads : ℕ → Bool

-- how many places there are
abbrev pub places : Setup → ℕ
places s = s.elements + 4 * s.pool

-- the laws of the names: different elements have different names, a name with a mate leads, a
-- patch has one first member, which is no second one, and 0 is no name that leads
pub record NamesApart (s : Setup) : Type 0 where
  pub top_one : (i j : ℕ) → s.top i ≡ s.top j → i ≡ j
  pub child_one : (n m : ℕ) (c d : Bool) → s.child n c ≡ s.child m d → (n ≡ m) × (c ≡ d)
  pub top_child : (i n : ℕ) (c : Bool) → s.top i ≡ s.child n c → ⊥
  pub mates_lead : (n k : ℕ) → s.mate n ≡ k + 1 → s.leads n ≡ true
  pub mate_one : (n m k : ℕ) → s.mate n ≡ k + 1 → s.mate m ≡ k + 1 → n ≡ m
  pub mate_leads : (n m k : ℕ) → s.mate n ≡ k + 1 → s.leads m ≡ true → m ≡ k + 1 → ⊥
  pub leads_some : s.leads 0 ≡ true → ⊥

-- the number is the code of a name of the mesh that can be bisected: its level is below 24
abbrev pub is_code : Shape → ℕ → Bool
is_code mesh k = eqb (name_code (name_in (k - 1))) k && ltb (level mesh (name_in (k - 1))) 24 && ltb (name_in (k - 1)).0 (size mesh)

-- the code of a child; a number that is no code has children too, which are no names
abbrev pub child_code : Shape → ℕ → Bool → ℕ
child_code mesh k c = let n = name_in (k - 1) in cond (is_code mesh k) (name_code (n.0, c ∷ n.1)) (1 + 31 * 16777216 + (2 * k + digit c) * 536870912)

-- the number is the code of a name that owns its patch
abbrev pub owner_code : Shape → Across → ℕ → Bool
owner_code mesh across k = is_code mesh k && owns across (name_in (k - 1))

-- the code of the partner
abbrev pub partner_code : Across → ℕ → ℕ
partner_code across k = let n = name_in (k - 1) in name_word (option_map (λ (m : Name × Bool). m.0) (partner across n.0 n.1))

-- the setup of a table over a mesh
abbrev pub setup_of : Shape → Across → Layout → ℕ → Setup
setup_of mesh across l passes = record {
  rounds = l.rounds;
  elements = l.elements;
  pool = l.pool;
  passes = passes;
  limit = 1048576;
  top = λ i. name_code (i, []);
  child = child_code mesh;
  mate = λ k. cond (owner_code mesh across k) (partner_code across k) 0;
  leads = owner_code mesh across;
}

-- the law that the names of a mesh are apart
abbrev pub CodesApart : Type 0
CodesApart = (mesh : Shape) (across : Across) (l : Layout) (passes : ℕ) → Tells mesh across → NamesApart (setup_of mesh across l passes)
