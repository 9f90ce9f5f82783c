-- A page of a run (our own profile).
use Rattle.std.specs.Prelude.{ℕ, List, [], ◌∷◌, ◌++◌, ◌==◌, if◌then◌else◌, codes}
use Rattle.std.specs.List.{flat_map}
use Rattle.mr_page.specs.declared.end_part.TheConstants.{END}
use Rattle.mr_page.specs.declared.head_part.TheConstants.{HEAD}
use Rattle.mr_page.specs.declared.lanes_part.TheConstants.{LANES}
use Rattle.mr_page.specs.declared.middle_part.TheConstants.{MIDDLE}
use Rattle.mr_page.specs.declared.page_part.TheConstants.{PAGE}
use Rattle.mr_page.specs.declared.run_part.TheConstants.{RUN}
use Rattle.mr_page.specs.declared.state_part.TheConstants.{STATE}

-- ---- its lines

-- In JSON a `<` stands within a string alone, where `\u003c` says the same (RFC 8259, 7). So no line ends the element that it stands in.
abbrev pub escaped_byte : ℕ → List ℕ
escaped_byte b = if b == 60 then codes "\\u003c" else b ∷ []

abbrev pub escaped : List ℕ → List ℕ
escaped text = flat_map escaped_byte text

-- ---- its fixed parts

unfoldable pub head : List ℕ
head = HEAD.now

unfoldable pub middle : List ℕ
middle = MIDDLE.now

unfoldable pub run_script : List ℕ
run_script = RUN.now

unfoldable pub state_script : List ℕ
state_script = STATE.now

unfoldable pub lanes_script : List ℕ
lanes_script = LANES.now

unfoldable pub page_script : List ℕ
page_script = PAGE.now

unfoldable pub end : List ℕ
end = END.now

abbrev pub script : List ℕ
script = run_script ++ (state_script ++ (lanes_script ++ page_script))

abbrev pub tail : List ℕ
tail = middle ++ (script ++ end)

-- ---- the page of these lines

abbrev pub page_of : List ℕ → List ℕ
page_of text = head ++ (escaped text ++ tail)
