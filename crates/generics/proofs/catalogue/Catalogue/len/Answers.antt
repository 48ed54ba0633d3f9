use Rattle.std.proofs.Common.{take, sym, ◌∙◌}
use Rattle.definitions.specs.Definitions.{definition_at}
use Rattle.definitions.proofs.Decided.{rightful}
use Rattle.generics.specs.Held.{held}
use Rattle.generics.proofs.Sizes.{defs_long}
use Rattle.generics.proofs.catalogue.Catalogue.len.Goals as goal

pub returns : goal.returns
returns c =
    let cat = c.args.self.now in
    record {
      rightful = λ i h. rightful (take i (held cat)) (definition_at (held cat) i) (cat.lawful i h);
      limited = cat.limited;
      count = c.len.ensures ∙ sym (defs_long cat);
    }
