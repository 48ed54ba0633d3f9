-- Which written argument fits which row. Assumes nothing.
use Rattle.std.specs.Prelude.{Bool, true, false, Some, None, Option}
use Rattle.definitions.specs.declared.kinds.RowKind.{RowKind}
use Rattle.definitions.specs.declared.kinds.RowKind.TheVariants.{TraitSelf, Lifetime as LifetimeRow, «Type» as TypeRow, Const as ConstRow, ImplTrait}
use Rattle.path.specs.declared.args.Form.{Form}
use Rattle.path.specs.declared.args.Form.TheVariants as form
use Rattle.lowerer.specs.declared.fit.Fit.{Fit}
use Rattle.lowerer.specs.declared.fit.Fit.TheVariants.{Agrees, TypeLikeConst}

-- a type, a path and a placeholder are written like types
abbrev pub is_type_form : Form → Bool
is_type_form form.Lifetime = false
is_type_form form.«Type» = true
is_type_form form.Path = true
is_type_form form.Placeholder = true
is_type_form form.Constant = false

-- a type row takes what is written like a type, Self too
abbrev pub fit_type : Form → Option Fit
fit_type form.Lifetime = None
fit_type form.«Type» = Some Agrees
fit_type form.Path = Some Agrees
fit_type form.Placeholder = Some Agrees
fit_type form.Constant = None

-- a const row takes a constant; a path may stand for one unbraced (Reference, paths: a const argument is braced unless it
-- is a literal or a path of one segment; how long a path is, its form does not say), and so may a placeholder
abbrev pub fit_const : Form → Option Fit
fit_const form.Lifetime = None
fit_const form.«Type» = None
fit_const form.Path = Some TypeLikeConst
fit_const form.Placeholder = Some TypeLikeConst
fit_const form.Constant = Some Agrees

-- a lifetime row takes a lifetime
abbrev pub fit_lifetime : Form → Option Fit
fit_lifetime form.Lifetime = Some Agrees
fit_lifetime form.«Type» = None
fit_lifetime form.Path = None
fit_lifetime form.Placeholder = None
fit_lifetime form.Constant = None

-- an impl-trait row takes no written argument (Reference, paths: the parameters of impl Trait are implicit and cannot be
-- specified)
abbrev pub fit_of : Form → RowKind → Option Fit
fit_of f TraitSelf = fit_type f
fit_of f LifetimeRow = fit_lifetime f
fit_of f TypeRow = fit_type f
fit_of f ConstRow = fit_const f
fit_of f ImplTrait = None
