-- The list of a fresh table has the fresh words.
use Rattle.std.proofs.Common.{◌≡◌, ℕ, ◌+◌, ◌*◌, ◌/◌, ◌%◌, ◌<◌, Bool, true, false, cond, ltb, List, refl, sym, ap, ◌∙◌, arith, ltb-true}
use mathlib.Core.Path.{fun_ext}
use Rattle.table_words.specs.declared.layout.Layout.{Layout}
use Rattle.table_words.specs.FreshWords.{fresh_content, AreFresh}
use Rattle.table_words.specs.Layout.{content, TableWord, Round, Cursor, FreeCount, Released, LinkOf, Row, OfBlock, Born, Died, IsWord}
use Rattle.table_words.specs.Places.{place_count, place_at}
use Rattle.table_words.specs.Words.{node_of, contents, history_word, member_name_word}
use Rattle.table_words.proofs.PlaceNumbers.{places_numbered}
use Rattle.table_state.specs.Fresh.{FreshFromList}

module _ (l : Layout) (words : List ℕ) (fresh : AreFresh l words) where
  -- the contents of numbered words
  contents_are : (n : ℕ) (f : ℕ → TableWord) → ((i : ℕ) → i < n → IsWord l (f i)) → (i : ℕ) → contents l words n f i ≡ cond (ltb i n) (fresh_content l (f i)) 0
  contents_are n f each i = by (ltb i n) refl
    where
      by : (t : Bool) → ltb i n ≡ t → contents l words n f i ≡ cond (ltb i n) (fresh_content l (f i)) 0
      by true e = ap (λ (x : ℕ). cond (ltb i n) x 0) (fresh.1 (f i) (each i (ltb-true i n e)))
      by false e = (λ j. cond (e j) (content l words (f i)) 0) ∙ sym (λ j. cond (e j) (fresh_content l (f i)) 0)

  -- where each of them is 0
  zeros : (n : ℕ) (f : ℕ → TableWord) → ((i : ℕ) → i < n → IsWord l (f i)) → ((i : ℕ) → fresh_content l (f i) ≡ 0) → (i : ℕ) → contents l words n f i ≡ 0
  zeros n f each zero_ i = contents_are n f each i ∙ ap (λ (x : ℕ). cond (ltb i n) x 0) (zero_ i) ∙ same (ltb i n)
    where
      same : (t : Bool) → cond {A = ℕ} t 0 0 ≡ 0
      same true = refl
      same false = refl

  links : (i : ℕ) → contents l words (place_count l) (λ y. LinkOf (place_at l y)) i ≡ 0
  links = zeros (place_count l) (λ y. LinkOf (place_at l y)) (λ x h. ((places_numbered l).1 x h).0) (λ _. refl)

pub fresh_from_list : FreshFromList
fresh_from_list l words fresh = λ i. record {
  round = ap (λ (x : ℕ). x / 4294967296) (fresh.1 Round tt) i;
  taken = ap (λ (x : ℕ). x % 4294967296) (fresh.1 Round tt) i;
  cursor = fresh.1 Cursor tt i;
  free = fresh.1 FreeCount tt i;
  released = fun_ext (zeros l words fresh (l.rounds + 1) Released (λ q h. omega arith) (λ _. refl)) i;
  row = fun_ext (contents_are l words fresh l.pool Row (λ _ h. h)) i;
  claimed = fun_ext (λ x. ap (λ (y : ℕ). y % 2) (links l words fresh x)) i;
  head = fun_ext (λ x. ap node_of (links l words fresh x)) i;
  history = fun_ext (λ h. ap node_of (zeros l words fresh (2 * l.pool) history_word (λ k low. omega arith) (λ _. refl) h)) i;
  born = fun_ext (zeros l words fresh l.pool (λ b. OfBlock b Born) (λ _ h. h) (λ _. refl)) i;
  died = fun_ext (zeros l words fresh l.pool (λ b. OfBlock b Died) (λ _ h. h) (λ _. refl)) i;
  name = fun_ext (zeros l words fresh (2 * l.pool) member_name_word (λ k low. omega arith) (λ _. refl)) i;
}
