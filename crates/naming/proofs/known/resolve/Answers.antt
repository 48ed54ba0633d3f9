use Rattle.std.proofs.Common.{length, rules, tests, ap, ◌∙◌, arith}
use Rattle.std.specs.Option.{unwrap_or}
use Rattle.std.proofs.lemmas.Iterator.{YieldsList-from_slice}
use Rattle.std.proofs.lemmas.Iterator.Consumers.{YieldsList-from_enumerate}
use Rattle.naming.specs.Resolves.{a_module}
use Rattle.naming.proofs.Resolving.{known_at, known_from}
use Rattle.naming.proofs.Searched.{first_some_from_find_map}
use Rattle.naming.proofs.known.resolve.Goals as goal

pub returns : goal.returns
returns c =
    let ts = c.args.templates.now in
    let line = c.args.line.now in
    let names = c.args.names.now in
    let found = first_some_from_find_map (known_at ts line (length names)) _ c.find_map.result c.find_map.ensures.runs (YieldsList-from_enumerate (YieldsList-from_slice names (cc)) (cc)) (λ x b q k. search (rules, tests)) in
    c.unwrap_or.ensures ∙ ap (λ o. unwrap_or o a_module) found ∙ known_from ts line names 0 (length names) (omega arith)
