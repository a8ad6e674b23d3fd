-- The sections as the reader keeps them: by their bytes.
use Rattle.macro_file.specs.declared.section.Section.{Section as Place}
use Rattle.macro_file.specs.declared.lists.NumberList.{NumberList}
use Rattle.macro_file.specs.Sections.{Section}
use Rattle.macro_file.specs.Walks.{tokens_from}
use Rattle.macro_file.specs.Meaning.{Listed}

-- the section of these bytes
abbrev pub section_of : Place → Section
section_of s = record { line = s.line; keyword = s.keyword; tokens = tokens_from s.line s.body.now }

-- a key and its numbers
abbrev pub listed_of : NumberList → Listed
listed_of l = (l.keyword, l.numbers.items)
