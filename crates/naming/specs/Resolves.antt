-- What a path names, by the names of its segments. Assumes nothing.
use Rattle.std.specs.Prelude.{ℕ, ◌+◌, Bool, cond, List, [], ◌∷◌, ◌++◌, Some, None, vec_items, codes, Option}
use Rattle.std.specs.List.{find, list_any}
use Rattle.std.specs.Option.{option_map}
use Rattle.std.specs.Str.{bytes_eq}
use Rattle.path.specs.declared.segments.TypeNs.{TypeNs}
use Rattle.path.specs.declared.segments.TypeNs.TheVariants as kind
use Rattle.spans.specs.declared.Span.{Span}
use Rattle.spans.specs.Parts.{part}
use Rattle.naming.specs.declared.known.Template.{Template}
use Rattle.naming.specs.declared.known.Meant.{Meant}
use Rattle.naming.specs.declared.known.Meant.TheVariants as meant
use Rattle.naming.specs.declared.known.Resolved.{Resolved}

-- the number of the first template of that name
abbrev pub numbered : List Template → List ℕ → Option ℕ
numbered ts n = option_map (λ t. t.number) (find (λ t. bytes_eq (vec_items t.name) n) ts)

abbrev unsigned : List (List ℕ)
unsigned = codes "u8" ∷ codes "u16" ∷ codes "u32" ∷ codes "u64" ∷ codes "u128" ∷ codes "usize" ∷ []

abbrev signed : List (List ℕ)
signed = codes "i8" ∷ codes "i16" ∷ codes "i32" ∷ codes "i64" ∷ codes "i128" ∷ codes "isize" ∷ []

abbrev plain : List (List ℕ)
plain = codes "bool" ∷ codes "char" ∷ codes "str" ∷ codes "f32" ∷ codes "f64" ∷ []

-- the name of a built-in type
unfoldable pub builtin : List ℕ → Bool
builtin n = list_any (λ name. bytes_eq name n) (unsigned ++ signed ++ plain)

-- what a name stands for: a template, else a built-in type or Self
abbrev pub meant_by : List Template → List ℕ → Option Meant
meant_by ts n = elim (numbered ts n) [ None ↦ cond (builtin n) (Some meant.Builtin) (cond (bytes_eq n (codes "Self")) (Some meant.OwnType) None) | Some k ↦ Some (meant.Template k) ]

-- the kind of path that ends there
abbrev pub kind_of : Meant → TypeNs
kind_of (meant.Template k) = kind.Adt
kind_of meant.Builtin = kind.BuiltinType
kind_of meant.OwnType = kind.SelfType

-- the index, if a name is left
abbrev pub left_over : List Span → ℕ → Option ℕ
left_over [] i = None
left_over (s ∷ ss) i = Some i

-- no name stands for anything
abbrev pub a_module : Resolved
a_module = record { meant = None; resolution = record { kind = kind.Module; remaining = None } }

-- the first name from the left that stands for something, counted from i on
abbrev pub first_known : List Template → List ℕ → List Span → ℕ → Resolved
first_known ts line [] i = a_module
first_known ts line (s ∷ ss) i = elim (meant_by ts (part line s)) [ None ↦ first_known ts line ss (i + 1) | Some m ↦ record { meant = Some m; resolution = record { kind = kind_of m; remaining = left_over ss (i + 1) } } ]
