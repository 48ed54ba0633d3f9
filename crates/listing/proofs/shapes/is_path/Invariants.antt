use Rattle.std.proofs.Common.{◌≡◌, ◌≤◌, drop}
use Rattle.listing.specs.Tokens.{deep, path_from}
use Rattle.listing.specs.declared.shapes.Place.TheVariants.{First}
use Rattle.listing.proofs.shapes.is_path.Given as goal

abbrev pub invariant-loop-byte : goal.invariant-loop-byte
invariant-loop-byte l = (deep l.place ≤ l.byte-index) × (path_from l.place (drop l.byte-index l.text) ≡ path_from First l.text)
