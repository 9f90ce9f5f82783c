-- What follows of the lines of a page.
use Rattle.std.specs.Prelude.{◌≡◌, ◌==◌, ℕ, List, false}
use Rattle.std.specs.List.{list_any}
use Rattle.mr_page.specs.Page.{escaped}

-- no `<` stands among them
abbrev pub LinesStayWithin : Type 0
LinesStayWithin = (text : List ℕ) → list_any (λ b. b == 60) (escaped text) ≡ false
