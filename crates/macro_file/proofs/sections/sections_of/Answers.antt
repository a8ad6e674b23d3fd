use Rattle.std.proofs.Common.{◌∙◌, sym, ap, refl, map}
use Rattle.std.specs.List.{list_any}
use Rattle.macro_file.specs.declared.section.Section.{Section as Place}
use Rattle.macro_file.specs.Keywords.{same}
use Rattle.macro_file.specs.Sections.{add_blocks}
use Rattle.macro_file.specs.Walks.{blocks_of}
use Rattle.macro_file.specs.Places.{section_of}
use Rattle.macro_file.proofs.SectionLemmas.{key_twice, one_more, within_more}
use Rattle.macro_file.proofs.sections.sections_of.Goals as goal

pub returns-then-stands-clause-err : goal.returns-then-stands-clause-err
returns-then-stands-clause-err c = λ _.
    c.loop-next.invariant.same
    ∙ ap (λ o. add_blocks (map section_of c.loop-next.sections.items) (blocks_of o)) c.in-Some-next.is
    ∙ key_twice c.in-Some-next.key c.in-Some-keyword_of.keyword c.loop-next.sections.items (sym c.keyword_of.ensures ∙ c.in-Some-keyword_of.is)
    (ap (list_any (λ (s : Place). same s.keyword c.in-Some-keyword_of.keyword)) (sym c.deref.ensures.value) ∙ sym c.stands.ensures ∙ c.if-stands.true)

pub loop-next-preserved : goal.loop-next-preserved
loop-next-preserved c = record {
  same = c.loop-next.invariant.same
      ∙ ap (λ o. add_blocks (map section_of c.loop-next.sections.items) (blocks_of o)) c.in-Some-next.is
      ∙ one_more c.in-Some-next.key c.in-Some-keyword_of.keyword c.loop-next.sections.items _ _ c.section_bytes.result.1 c.in_ok-push.ensures.ok (sym c.keyword_of.ensures ∙ c.in-Some-keyword_of.is)
      (ap (list_any (λ (s : Place). same s.keyword c.in-Some-keyword_of.keyword)) (sym c.deref.ensures.value) ∙ sym c.stands.ensures ∙ c.if-stands.false)
      c.section_bytes.ensures.parts refl refl;
  within = within_more _ c.loop-next.next c.section_bytes.result.1 c.in-Some-next.key c.loop-next.invariant.within c.in-Some-next.is c.section_bytes.ensures.within;
}
