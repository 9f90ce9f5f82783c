-- Calls with a `&mut` (our own profile).
use Rattle.std.specs.Prelude.{◌≡◌}
use denote.Ref.{MutBor}
use denote.Param.Members.{Shared}

module _ {F T X : Type 0} (g : Shared F (MutBor T × Unit {0}) (X × (MutBor T × Unit {0}))) (f : F) where
  -- f may be called with a `&mut` to x
  abbrev pub Accepts : T → Type 0
  Accepts x = (p : MutBor T) → p.now ≡ x → g.pre f (p, tt)

  -- a call of f with a `&mut` to x may answer r, and leave y there
  pub record Leaves (x : T) (r : X) (y : T) : Type 0 where
    pub argument : MutBor T
    pub argument_is : argument.now ≡ x
    pub after_call : MutBor T
    pub call : g.post f (argument, tt) (r, (after_call, tt))
    pub left : after_call.now ≡ y
