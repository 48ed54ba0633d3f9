-- What was written into a store, and parts of it. Assumes nothing.
use Rattle.std.proofs.Common.{◌≡◌, ◌+◌, leb, List, ◌++◌, length, take, drop, IfSome, Some, None, Option, sym, ap, ◌∙◌, subst, arith, length-append, length-drop}
use lib.ListN.{length-map}
use Rattle.std.proofs.lemmas.List.{drop_at, drop-append-le, length-take-le, take_all, take-append-le}
use Rattle.std.proofs.lemmas.Option.{cond_some, none-some}
use Rattle.std.proofs.lemmas.Bool.{cond-true, le-leb, leb-true}
use Rattle.pieces.specs.declared.Piece.{Piece}
use Rattle.definitions.specs.declared.kinds.Mark.{Mark}
use Rattle.pieces.specs.Pieces.{piece_with, spelled_with, NoRef, RefsBelow}
use Rattle.pieces.proofs.Spelled.{no_refs}
use Rattle.spans.specs.declared.Span.{Span}
use Rattle.lowerers.specs.declared.terms.Terms.{Terms}
use Rattle.lowerers.specs.Stores.{part_of, written, written_in, TermArg, Writing}

-- a part of what was written stays when more is written
pub part_stays : (ws ps qs : List (Piece TermArg)) (o : Option Span) → part_of ws o ≡ Some qs → part_of (ws ++ ps) o ≡ Some qs
part_stays ws ps qs None e = absurd (none-some qs e)
part_stays ws ps qs (Some p) e =
    let a = cond_some (leb (p.from + p.len) (length ws)) (take p.len (drop p.from ws)) qs e in
    let h = leb-true (p.from + p.len) (length ws) a.0 in
    let l = length-append ws ps in
    let d = drop-append-le p.from ws ps (omega arith) in
    let t = take-append-le p.len (drop p.from ws) ps (omega (arith, length-drop p.from ws)) in
    cond-true (leb (p.from + p.len) (length (ws ++ ps))) (Some (take p.len (drop p.from (ws ++ ps)))) None (le-leb (p.from + p.len) (length (ws ++ ps)) (omega arith)) ∙ ap (λ ys. Some (take p.len ys)) d ∙ ap Some (t ∙ a.1)

-- what was written last is its own part
pub part_new : (ws ps : List (Piece TermArg)) (p : Span) → p.from ≡ length ws → p.len ≡ length ps → part_of (ws ++ ps) (Some p) ≡ Some ps
part_new ws ps p e f =
    let l = length-append ws ps in
    let d : drop p.from (ws ++ ps) ≡ ps = drop_at ws ps p.from (sym e) in
    cond-true (leb (p.from + p.len) (length (ws ++ ps))) (Some (take p.len (drop p.from (ws ++ ps)))) None (le-leb (p.from + p.len) (length (ws ++ ps)) (omega arith)) ∙ ap (λ ys. Some (take p.len ys)) d ∙ ap Some (take_all p.len ps (omega arith))

-- a default is written behind what is there
module _ (s t : Terms) (e : TermArg) (entries : List TermArg) (ms : List Mark) where
  pub wrote : written t ≡ written s ++ spelled_with entries ms → t.used ≡ s.used + length ms → length t.store.now ≡ length s.store.now → e.kept ≡ Some (record { from = s.used; len = length ms }) → RefsBelow (length entries) ms → Writing (Some ms) entries s t e
  wrote behind used size is refs =
      let ps = spelled_with entries ms in
      let p : Span = record { from = s.used; len = length ms } in
      let long : length (written s) ≡ s.used = length-take-le s.used s.store.now (omega (arith, s.within)) in
      let at : written_in t e ≡ Some ps = ap (part_of (written t)) is ∙ ap (λ ws. part_of ws (Some p)) behind ∙ part_new (written s) ps p (sym long) (sym (length-map ms (piece_with entries))) in
      record {
        pieces = at;
        plain = λ none. absurd (none-some ms (sym none));
        whole = subst (λ (o : Option (List (Piece TermArg))). IfSome o NoRef) (sym at) (no_refs entries ms refs);
        places = used;
        keeps = record {
          pieces = λ x qs h. ap (λ ws. part_of ws x.kept) behind ∙ part_stays (written s) ps qs x.kept h;
          size = size;
          within = t.within;
        };
      }
