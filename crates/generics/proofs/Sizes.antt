-- How long the catalogue's lists are. Assumes nothing.
use Rattle.std.proofs.Common.{◌≡◌, ◌+◌, ◌<◌, ◌≤◌, true, length, vec_items, vec_len, sym, ◌∙◌, arith}
use lib.ListN.{length-map}
use Rattle.generics.specs.declared.catalogue.Catalogue.{Catalogue}
use Rattle.definitions.specs.declared.kinds.Declaration.{Declaration}
use Rattle.definitions.specs.Definitions.{row_total, mark_total, marks_in, default_marks}
use Rattle.generics.specs.Held.{held}
use Rattle.generics.specs.Lays.{definition_of, param_asked, asked}
use Rattle.definitions.specs.Rules.{has_room}
use Rattle.definitions.proofs.Decided.{tests_decide}

module _ (cat : Catalogue) where
  pub defs_long : length (held cat) ≡ vec_len cat.defs
  defs_long = length-map (vec_items cat.defs) (definition_of (vec_items cat.rows) (vec_items cat.marks)) ∙ sym cat.defs.ok.0

  pub rows_long : row_total (held cat) ≡ vec_len cat.rows
  rows_long = cat.counted.0 ∙ sym cat.rows.ok.0

  pub marks_long : mark_total (held cat) ≡ vec_len cat.marks
  marks_long = cat.counted.1 ∙ sym cat.marks.ok.0

pub asked_long : (d : Declaration) → length (asked d).rows ≡ length d.rows.now
asked_long d = length-map d.rows.now param_asked

-- what room there is, in numbers
pub record Roomy (cat : Catalogue) (d : Declaration) : Type 0 where
  pub defs : vec_len cat.defs < 64
  pub rows : vec_len cat.rows + length d.rows.now ≤ 512
  pub marks : vec_len cat.marks + (default_marks (asked d).rows + marks_in (asked d).body) ≤ 2048

pub roomy : (cat : Catalogue) (d : Declaration) → has_room (held cat) (asked d) ≡ true → Roomy cat d
roomy cat d h =
    let f = (tests_decide (held cat) (asked d)).room.0 h in
    record {
      defs = omega (arith, f.defs, defs_long cat);
      rows = omega (arith, f.rows, rows_long cat, asked_long d);
      marks = omega (arith, f.marks, marks_long cat);
    }
