-- Fronts of a log.
use Rattle.std.proofs.Common.{◌≡◌, List, [], ◌∷◌, ◌++◌, Option, Some, None, refl, sym, ap, ◌∙◌, append_assoc, append-nil}
use Rattle.mr_log_entries.specs.declared.line.Line.{Line}
use Rattle.mr_log_entries.specs.declared.entry.Entry.{Entry}
use Rattle.mr_log_entries.specs.Recorded.{lines_of}
use Rattle.mr_log_model.specs.Promises.{with_last, IsFront}

pub front-self : (xs : List Entry) → IsFront xs xs
front-self xs = record { rest = []; is = sym (append-nil xs) }

pub front-none : (xs : List Entry) → IsFront [] xs
front-none xs = record { rest = xs; is = refl }

pub front-more : (xs ys : List Entry) → IsFront xs (xs ++ ys)
front-more xs ys = record { rest = ys; is = refl }

pub front-trans : (xs ys zs : List Entry) → IsFront xs ys → IsFront ys zs → IsFront xs zs
front-trans xs ys zs f g = record { rest = f.rest ++ g.rest; is = g.is ∙ ap (λ (es : List Entry). es ++ g.rest) f.is ∙ append_assoc xs f.rest g.rest }

pub front-last : (xs : List Entry) (last : Option Entry) → IsFront xs (with_last xs last)
front-last xs None = front-self xs
front-last xs (Some e) = front-more xs (e ∷ [])

pub lines-more : (xs ys : List Entry) → lines_of (xs ++ ys) ≡ lines_of xs ++ lines_of ys
unfolding lines_of
lines-more [] ys = refl
lines-more (e ∷ xs) ys = ap (λ (ls : List Line). e.lines ++ ls) (lines-more xs ys) ∙ sym (append_assoc e.lines (lines_of xs) (lines_of ys))
