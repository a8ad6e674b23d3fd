use Rattle.std.proofs.Common.{◌≡◌, ◌+◌, ◌-◌, ⊎_elim, inl, None, List, [], ◌∷◌, refl, sym, ap, ◌∙◌, subst, arith, false}
use Rattle.table_words.specs.NameWords.{name_code}
use Rattle.table_words.specs.Places.{place_number}
use Rattle.mesh_table.specs.Saw.{Saw, SawClaim, SawDraw, SawFree, SawBirth, SawBisected, SawEnd}
use Rattle.mesh_table.specs.Sights.{setup_at}
use Rattle.mesh_table.specs.Told.{sight}
use Rattle.mesh_table.specs.Lost.{AllLiving}
use Rattle.patch_claims.proofs.Claims.{anothers_on}
use Rattle.patch_claims.proofs.Growing.{arrived_knows}
use Rattle.patch_claims.proofs.Listing.{free_place, kept_failed, listed_own, listed_room, listed_same}
use Rattle.patch_claims.proofs.needs.take_alone.Goals as goal

pub returns-in-Some-clause-made : goal.returns-in-Some-clause-made
returns-in-Some-clause-made g c =
    let ends = c.in-Claimed.ensures.ends in
    let seen = c.in-Some.ensures in
    let k = name_code c.args.name in (
      record {
        room = seen.some.0;
        knows = seen.some.1;
        living = subst AllLiving (sym (seen.wiser.claims ∙ ends.1.claims)) c.requires.living;
        published = (SawBisected k ∷ SawClaim (place_number c.args.table.now.site.layout c.args.at) c.in-Claimed.old_word ∷ [], seen.bisected ∙ ap (λ (l : List Saw). SawBisected k ∷ l) ends.1.saw, refl);
      },
      omega arith,
    )

pub returns-in-Full-clause-refused : goal.returns-in-Full-clause-refused
returns-in-Full-clause-refused g c =
    let ends = c.in-Full.ensures.ends in
    (ends.0, (place_number c.args.table.now.site.layout c.args.at, ends.1.0, ([], ends.1.1), ends.2 c.requires.living))

pub returns-in-Published-clause-made : goal.returns-in-Published-clause-made
returns-in-Published-clause-made g c =
    let ends = c.in-Published.ensures.ends in
    let l = c.args.table.now.site.layout in
    let k = name_code c.args.name in
    let b = c.in-Published.block in
    let s = ends.3 in
    rw c.walk_own.ensures.view (
      record {
        room = ends.0;
        knows = arrived_knows (setup_at c.args.table.now.site) (place_number l c.args.at) k b false (sight c.bisect_alone.new.pass);
        living = ends.4 c.requires.living;
        published = (SawBisected k ∷ SawBirth b ∷ SawFree s.2 ∷ SawDraw s.1 ∷ SawClaim (place_number l c.args.at) s.0 ∷ [], ap (λ (a : List Saw). SawBisected k ∷ a) s.3, refl);
      },
      omega arith,
    )

pub returns-in-None-clause-refused : goal.returns-in-None-clause-refused
returns-in-None-clause-refused g c =
    let ends = c.in-Claimed.ensures.ends in
    let lost = ends.1 in
    let seen = c.in-None.ensures in
    let x = place_number c.args.table.now.site.layout c.args.at in
    let u = sight c.bisect_alone.new.pass in
    let v = sight c.visit.new.pass in
    let claims = seen.wiser.claims ∙ lost.claims in
    let number = seen.wiser.number ∙ lost.number in (
      ends.0,
      (
        c.args.name,
        refl,
        c.requires.owner,
        (
          x,
          seen.wiser.found _ (lost.found _ c.requires.may.found),
          ⊎_elim (λ p. absurd (c.in-None.ensures.unknown p.0)) (anothers_on (sight c.args.pass.now) v x claims number) (lost.cause c.requires.living),
          ([], seen.ended ∙ ap (λ (l : List Saw). SawEnd (name_code c.args.name) ∷ l) lost.saw),
        ),
      ),
      subst AllLiving (sym claims) c.requires.living,
    )

pub returns-in-Some-clause-listed : goal.returns-in-Some-clause-listed
returns-in-Some-clause-listed g c =
    let lost = c.in-Claimed.ensures.ends.1 in
    let wiser = c.in-Some.ensures.wiser in
    listed_same c.args.table.now.site (sight c.args.pass.now) (sight c.visit.new.pass) c.args.published.now.items (wiser.claims ∙ lost.claims) (λ a e. wiser.found a (lost.found a e)) (λ a e. wiser.known a (lost.known a e)) c.requires.listed

pub returns-in-None-clause-kept : goal.returns-in-None-clause-kept
returns-in-None-clause-kept g c =
    let lost = c.in-Claimed.ensures.ends.1 in
    let wiser = c.in-None.ensures.wiser in
    listed_same c.args.table.now.site (sight c.args.pass.now) (sight c.visit.new.pass) c.args.published.now.items (wiser.claims ∙ lost.claims) (λ a e. wiser.found a (lost.found a e)) (λ a e. wiser.known a (lost.known a e)) c.requires.listed

pub returns-in-Full-clause-kept : goal.returns-in-Full-clause-kept
returns-in-Full-clause-kept g c =
    let ends = c.in-Full.ensures.ends in
    kept_failed c.args.table.now.site (sight c.args.pass.now) (sight c.bisect_alone.new.pass) c.args.published.now.items (record { first = c.args.at; second = None })
    c.requires.listed c.bisect_alone.ensures.works ends.3 (free_place (setup_at c.args.table.now.site) (sight c.args.pass.now) _ _ (name_code c.args.name) c.requires.unclaimed ends.4 c.requires.may.found (inl refl)) (c.requires.place, tt)

pub keep-requires : goal.keep-requires
keep-requires g c =
    let ends = c.in-Published.ensures.ends in
    let none : (setup_at c.args.table.now.site).mate (name_code c.args.name) ≡ 0 = ⊎_elim (λ z. z.1) (λ y. let z = y.2 in absurd (omega arith)) c.requires.may.mates in
    record {
      room = listed_room c.args.table.now.site (sight c.args.pass.now) (sight c.bisect_alone.new.pass) c.args.published.now.items (record { block = c.in-Published.block; spot = record { first = c.args.at; second = None }; name = record { first = c.args.name; second = None } })
          c.requires.listed c.bisect_alone.ensures.works (place_number c.args.table.now.site.layout c.args.at) (name_code c.args.name) false ends.5 (free_place (setup_at c.args.table.now.site) (sight c.args.pass.now) _ _ (name_code c.args.name) c.requires.unclaimed ends.6 c.requires.may.found (inl refl)) ends.7 ends.0 (c.requires.place, tt) c.requires.may.found ends.2
          (ends.2 (name_code c.args.name) (inl refl), λ i e. absurd (omega arith)) _ c.requires.room;
    }

pub returns-in-Published-clause-listed : goal.returns-in-Published-clause-listed
returns-in-Published-clause-listed g c =
    let ends = c.in-Published.ensures.ends in
    let none : (setup_at c.args.table.now.site).mate (name_code c.args.name) ≡ 0 = ⊎_elim (λ z. z.1) (λ y. let z = y.2 in absurd (omega arith)) c.requires.may.mates in
    rw (c.keep.ensures.items, c.walk_own.ensures.view)
    (listed_own c.args.table.now.site (sight c.args.pass.now) (sight c.bisect_alone.new.pass) c.args.published.now.items (record { block = c.in-Published.block; spot = record { first = c.args.at; second = None }; name = record { first = c.args.name; second = None } })
    c.requires.listed c.bisect_alone.ensures.works (place_number c.args.table.now.site.layout c.args.at) (name_code c.args.name) false ends.5 (free_place (setup_at c.args.table.now.site) (sight c.args.pass.now) _ _ (name_code c.args.name) c.requires.unclaimed ends.6 c.requires.may.found (inl refl)) ends.7 ends.0 (c.requires.place, tt) c.requires.may.found ends.2
    (ends.2 (name_code c.args.name) (inl refl), λ i e. absurd (omega arith)))
