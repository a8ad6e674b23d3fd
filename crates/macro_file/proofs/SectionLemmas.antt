-- One section after another.
use Rattle.std.proofs.Common.{◌≡◌, ℕ, List, [], ◌∷◌, ◌++◌, true, false, ◌||◌, map, cond, length, ◌+◌, ◌≤◌, ◌<◌, Option, Some, None, IfSome, Ok, Err, ◌∙◌, refl, sym, ap, subst, arith}
use Rattle.std.specs.List.{list_any}
use Rattle.std.proofs.lemmas.List.{map-append}
use Rattle.macro_file.specs.declared.keyword.Keyword.{Keyword}
use Rattle.macro_file.specs.declared.refusal.MacroRefusal.TheVariants.{BadKey, KeyTwice}
use Rattle.macro_file.specs.declared.lines.KeyLine.{KeyLine}
use Rattle.macro_file.specs.declared.section.Section.{Section as Place}
use Rattle.macro_file.specs.Steps.{then}
use Rattle.macro_file.specs.Lines.{lines}
use Rattle.macro_file.specs.Keywords.{same, keyword_of}
use Rattle.macro_file.specs.Sections.{Token, Block, Section, blocks, stands, add_block, add_blocks, from_first_key, sections}
use Rattle.macro_file.specs.Walks.{blocks_after, blocks_of}
use Rattle.macro_file.specs.Places.{section_of}

-- how many bytes are left
abbrev pub left : Option KeyLine → ℕ
left None = 0
left (Some k) = length k.after.now + 1

-- a word before the first key
pub stray : (bytes : List ℕ) (ts more : List Token) (t : Token) (bs : List Block) → blocks 1 (lines bytes) ≡ (ts, bs) → ts ≡ t ∷ more → sections bytes ≡ Err (BadKey t.0)
stray bytes ts more t bs e h = ap from_first_key (e ∙ (λ i. (h i, bs)))

pub begin : (bytes : List ℕ) (ts : List Token) (bs : List Block) → blocks 1 (lines bytes) ≡ (ts, bs) → ts ≡ [] → sections bytes ≡ add_blocks [] bs
begin bytes ts bs e h = ap from_first_key (e ∙ (λ i. (h i, bs)))

pub stands-map : (k : Keyword) (ss : List Place) → stands k (map section_of ss) ≡ list_any (λ (s : Place). same s.keyword k) ss
stands-map k [] = refl
stands-map k (s ∷ ss) = ap (λ t. same s.keyword k || t) (stands-map k ss)

-- the block that a key line begins
abbrev block : KeyLine → Block
block k = record { line = k.line; key = k.key.now; tokens = (blocks_after k.line (lines k.after.now)).0 }

pub bad_key : (k : KeyLine) (ss : List Section) → keyword_of k.key.now ≡ None → add_blocks ss (blocks_of (Some k)) ≡ Err (BadKey k.line)
bad_key k ss e = ap (λ o. then (add_block ss (block k) o) (λ more. add_blocks more (blocks_after k.line (lines k.after.now)).1)) e

pub key_twice : (k : KeyLine) (word : Keyword) (ss : List Place) → keyword_of k.key.now ≡ Some word → list_any (λ (s : Place). same s.keyword word) ss ≡ true → add_blocks (map section_of ss) (blocks_of (Some k)) ≡ Err (KeyTwice k.line)
key_twice k word ss e h = ap (λ o. then (add_block (map section_of ss) (block k) o) (λ more. add_blocks more (blocks_after k.line (lines k.after.now)).1)) e
    ∙ ap (λ t. then (cond t (Err (KeyTwice k.line)) (Ok (map section_of ss ++ record { line = k.line; keyword = word; tokens = (blocks_after k.line (lines k.after.now)).0 } ∷ []))) (λ more. add_blocks more (blocks_after k.line (lines k.after.now)).1)) (stands-map word ss ∙ h)

pub one_more : (k : KeyLine) (word : Keyword) (ss items : List Place) (s : Place) (next : Option KeyLine) → items ≡ ss ++ s ∷ [] → keyword_of k.key.now ≡ Some word → list_any (λ (p : Place). same p.keyword word) ss ≡ false →
    blocks_after k.line (lines k.after.now) ≡ ((section_of s).tokens, blocks_of next) → s.line ≡ k.line → s.keyword ≡ word → add_blocks (map section_of ss) (blocks_of (Some k)) ≡ add_blocks (map section_of items) (blocks_of next)
one_more k word ss items s next all e h parts line keyword = ap (λ o. then (add_block (map section_of ss) (block k) o) (λ more. add_blocks more (blocks_after k.line (lines k.after.now)).1)) e
    ∙ ap (λ t. then (cond t (Err (KeyTwice k.line)) (Ok (map section_of ss ++ record { line = k.line; keyword = word; tokens = (blocks_after k.line (lines k.after.now)).0 } ∷ []))) (λ more. add_blocks more (blocks_after k.line (lines k.after.now)).1)) (stands-map word ss ∙ h)
    ∙ (λ i. add_blocks (map section_of ss ++ record { line = sym line i; keyword = sym keyword i; tokens = (parts i).0 } ∷ []) (parts i).1)
    ∙ ap (λ more. add_blocks more (blocks_of next)) (sym (ap (map section_of) all ∙ map-append section_of ss (s ∷ [])))

-- the key line's number and bytes stay within a bound
abbrev pub Within : ℕ → Option KeyLine → Type 0
Within most next = IfSome next (λ k. k.line + length k.after.now ≤ most)

pub within_more : (most : ℕ) (before next : Option KeyLine) (k : KeyLine) → Within most before → before ≡ Some k → IfSome next (λ m. (m.line + length m.after.now ≤ k.line + length k.after.now) × (length m.after.now < length k.after.now)) → Within most next
within_more most before None k w e h = tt
within_more most before (Some m) k w e h = let here : k.line + length k.after.now ≤ most = subst (Within most) e w in omega (arith, here, h.0)
