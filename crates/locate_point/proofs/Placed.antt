-- A text of places that grows point by point.
use Rattle.std.proofs.Common.{◌≡◌, ℕ, ◌+◌, ◌<◌, ◌≤◌, List, [], ◌∷◌, ◌++◌, length, take, get_or, sym, ap, subst, ◌∙◌, append_assoc}
use Rattle.std.specs.Prelude.{Option}
use Rattle.std.specs.List.{AllZip}
use Rattle.std.proofs.lemmas.List.{append-nil, take_more, take_all}
use Rattle.mesh_names.specs.Names.{Name}
use Rattle.compat_check.specs.Meshes.{Mesh}
use Rattle.compat_check.specs.Points.{Point}
use Rattle.locate_point.specs.Locating.{IsPlace}
use Rattle.locate_point.specs.PlaceTexts.{IsPlacesText, place_text, places_text}

zip_push : {A B : Type 0} (R : A → B → Type 0) (xs : List A) (ys : List B) (x : A) (y : B) → AllZip R xs ys → R x y → AllZip R (xs ++ x ∷ []) (ys ++ y ∷ [])
zip_push R [] [] x y h r = (r, tt)
zip_push R [] (z ∷ ys) x y h r = absurd h
zip_push R (w ∷ xs) [] x y h r = absurd h
zip_push R (w ∷ xs) (z ∷ ys) x y h r = (h.0, zip_push R xs ys x y h.1 r)

text_push : (os : List (Option Name)) (o : Option Name) → places_text (os ++ o ∷ []) ≡ places_text os ++ place_text o
text_push [] o = append-nil (place_text o)
text_push (p ∷ os) o = ap (λ t. place_text p ++ t) (text_push os o) ∙ sym (append_assoc (place_text p) (places_text os) (place_text o))

pub no_points : (mesh : Mesh) (leaves : List Name) (points : List Point) (text : List ℕ) → text ≡ [] → IsPlacesText mesh leaves (take 0 points) text
no_points mesh leaves points text e = ([], tt, e)

pub point_more : (mesh : Mesh) (leaves : List Name) (points : List Point) (i : ℕ) (p : Point) (place : Option Name) (old new : List ℕ) → i < length points → p ≡ get_or points i p → IsPlacesText mesh leaves (take i points) old → IsPlace mesh leaves p place → new ≡ old ++ place_text place →
    IsPlacesText mesh leaves (take (i + 1) points) new
point_more mesh leaves points i p place old new inside at before here e =
    let more : take (i + 1) points ≡ take i points ++ p ∷ [] = take_more points i p inside ∙ ap (λ q. take i points ++ q ∷ []) (sym at) in (
      before.0 ++ place ∷ [],
      subst (λ (ps : List Point). AllZip (IsPlace mesh leaves) ps (before.0 ++ place ∷ [])) (sym more) (zip_push (IsPlace mesh leaves) (take i points) before.0 p place before.1 here),
      e ∙ ap (λ t. t ++ place_text place) before.2 ∙ sym (text_push before.0 place),
    )

pub all_points : (mesh : Mesh) (leaves : List Name) (points : List Point) (n : ℕ) (text : List ℕ) → length points ≤ n → IsPlacesText mesh leaves (take n points) text → IsPlacesText mesh leaves points text
all_points mesh leaves points n text h t = subst (λ (ps : List Point). IsPlacesText mesh leaves ps text) (take_all n points h) t
