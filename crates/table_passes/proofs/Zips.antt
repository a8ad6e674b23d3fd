-- What holds of two lists place by place.
use Rattle.std.proofs.Common.{List, [], ◌∷◌, ◌++◌}
use Rattle.std.specs.List.{AllZip}

pub zip_append : {A B : Type 0} (R : A → B → Type 0) (xs cs : List A) (ys ds : List B) → AllZip R xs ys → AllZip R cs ds → AllZip R (xs ++ cs) (ys ++ ds)
zip_append R [] cs [] ds h k = k
zip_append R [] cs (b ∷ ys) ds h k = absurd h
zip_append R (a ∷ xs) cs [] ds h k = absurd h
zip_append R (a ∷ xs) cs (b ∷ ys) ds h k = (h.0, zip_append R xs cs ys ds h.1 k)
