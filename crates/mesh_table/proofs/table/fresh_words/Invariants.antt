use Rattle.std.proofs.Common.{◌≡◌, ◌≢◌, ℕ, ◌+◌, ◌<◌, ◌≤◌, ◌⊎◌, length, slice_index}
use Rattle.table_words.specs.Layout.{word_count}
use Rattle.mesh_table.proofs.table.fresh_words.Given as goal

abbrev pub invariant-loop-number : goal.invariant-loop-number
invariant-loop-number l = record {
  long : length l.words.items ≡ word_count l.layout;
  free : slice_index l.words.items 3 ≡ l.layout.pool;
  rows : (i : ℕ) → i < l.number → slice_index l.words.items (5 + l.layout.rounds + l.layout.elements + i) ≡ i;
  none : (a : ℕ) → a ≢ 3 → (a < 5 + l.layout.rounds + l.layout.elements) ⊎ (5 + l.layout.rounds + l.layout.elements + l.number ≤ a) → slice_index l.words.items a ≡ 0;
}
