use Rattle.std.proofs.Common.{arith}
use Rattle.std.proofs.lemmas.List.Sums.{suffix_len-le-length}
use Rattle.listing.specs.Blanks.{white}
use Rattle.listing.proofs.blanks.trim.Goals as goal

pub overflow_sub-end : goal.overflow_sub-end
overflow_sub-end c = omega (arith, suffix_len-le-length white c.args.text.now)
