-- The words for how an argument is written, and for refusals.
use Rattle.std.specs.Prelude.{ℕ, List, codes}
use Rattle.path.specs.declared.args.Form.{Form}
use Rattle.path.specs.declared.args.Form.TheVariants.{Lifetime, «Type», Path, Placeholder, Constant}
use Rattle.path.specs.declared.checked.CheckRefusal.{CheckRefusal}
use Rattle.path.specs.declared.checked.CheckRefusal.TheVariants.{ManySegments, BadIndex, NoRoom}

-- how an argument is written
abbrev pub form_words : Form → List ℕ
form_words Lifetime = codes "a lifetime"
form_words «Type» = codes "a type"
form_words Path = codes "a path"
form_words Placeholder = codes "a placeholder"
form_words Constant = codes "a constant"

-- why a path is not checked
abbrev pub refusal_words : CheckRefusal → List ℕ
refusal_words ManySegments = codes "the path has more than 16 segments"
refusal_words BadIndex = codes "the path has no such segment"
refusal_words NoRoom = codes "there is no room for its reports"
