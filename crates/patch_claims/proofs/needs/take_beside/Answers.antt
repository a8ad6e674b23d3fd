use Rattle.std.proofs.Common.{◌≡◌, ℕ, ◌+◌, [], ◌∷◌, refl, sym, ap, ◌∙◌, subst, arith}
use Rattle.compat_check.specs.Meshes.{across_in}
use Rattle.table_words.specs.Entries.{HasEntry}
use Rattle.table_words.specs.NameWords.{name_code}
use Rattle.table_words.specs.Views.{Plan}
use Rattle.mesh_table.specs.Lost.{AllLiving}
use Rattle.mesh_table.specs.Told.{sight}
use Rattle.patch_claims.specs.Needs.{HasPublished}
use Rattle.patch_claims.proofs.Growing.{published_seen, published_ended, published_more, refused_after}
use Rattle.patch_claims.proofs.Listing.{seen_list, unclaimed_seen}
use Rattle.patch_claims.proofs.needs.take_beside.Goals as goal

pub returns-in-Some-clause-made : goal.returns-in-Some-clause-made
returns-in-Some-clause-made g c = (
  record {
    room = c.in-Some.ensures.some.0;
    knows = c.in-Some.ensures.some.1;
    living = subst AllLiving (sym c.visit.ensures.wiser.claims) c.requires.living;
    published = published_seen (sight c.args.pass.now) (sight c.args.pass.now) (sight c.visit.new.pass) 0 (name_code c.args.name) ([], refl, refl) c.in-Some.ensures.bisected;
  },
  omega arith,
)

pub returns-in-Some-clause-listed : goal.returns-in-Some-clause-listed
returns-in-Some-clause-listed g c = seen_list c.args.table.now.site (sight c.args.pass.now) (sight c.visit.new.pass) c.args.published.now.items c.visit.ensures.wiser c.requires.listed

pub take_one-requires-clause-listed : goal.take_one-requires-clause-listed
take_one-requires-clause-listed g c = seen_list c.args.table.now.site (sight c.args.pass.now) (sight c.visit.new.pass) c.args.published.now.items c.visit.ensures.wiser c.requires.listed

pub take_one-requires-clause-unclaimed : goal.take_one-requires-clause-unclaimed
take_one-requires-clause-unclaimed g c = unclaimed_seen c.args.table.now.site (sight c.args.pass.now) (sight c.visit.new.pass) c.args.published.now.items (name_code c.args.name) c.visit.ensures.wiser c.requires.listed c.in_default.ensures.unknown (omega arith)

pub returns-in-Ok-clause-made : goal.returns-in-Ok-clause-made
returns-in-Ok-clause-made g c =
    let u = sight c.args.pass.now in
    let w = sight c.take_one.new.pass in
    let made = c.in-Ok.ensures.made in
    let same : 0 + c.in-Ok.made.patches ≡ c.in-Ok.made.patches = omega arith in
    let both = published_more u (sight c.visit.new.pass) w 0 c.in-Ok.made.patches (published_ended u u (sight c.visit.new.pass) 0 (name_code c.args.name) ([], refl, refl) c.in_default.ensures.ended) made.0.published in
    (record { room = made.0.room; knows = made.0.knows; living = made.0.living; published = subst (HasPublished u w) same both }, made.1)

pub returns-in-Err-clause-refused : goal.returns-in-Err-clause-refused
returns-in-Err-clause-refused g c =
    let u = sight c.args.pass.now in
    refused_after (across_in c.args.table.now.site.mesh.now) (λ m. m ≡ c.args.name) (λ m. m ≡ c.args.name) u (sight c.visit.new.pass) (sight c.take_one.new.pass) c.in-Err.refusal 0 (λ m h. h)
    (published_ended u u (sight c.visit.new.pass) 0 (name_code c.args.name) ([], refl, refl) c.in_default.ensures.ended) c.in-Err.ensures.refused
