use Rattle.std.proofs.Common.{◌∙◌, ap, sym, length, map, List, Vec, Global, ℕ}
use Rattle.std.proofs.lemmas.List.{length-map}
use Rattle.std.specs.List.{flat_map}
use Rattle.std.specs.Option.{option_map}
use Rattle.mr_user.specs.Computation.{computation}
use Rattle.mr_user.specs.Sequential.{key_lines, part_of, text_of}
use Rattle.mr_user.proofs.Putting.{file_gathered}
use Rattle.mr_user.proofs.execution.sequential.Goals as goal

pub returns-clause-count : goal.returns-clause-count
returns-clause-count g c =
    let all = computation g.J.Key.Ord.cmp g.J.Key.Wire.codec g.J.Value.Wire.codec g.J.Job.functions in
    sym (length-map c.in_ok-files.files.items (λ (file : Vec ℕ Global). file.items))
    ∙ ap (length {A = List ℕ}) c.in_ok-files.ensures
    ∙ length-map c.deref.result.now (flat_map (key_lines all))
    ∙ ap (length {A = List (g.row.J-Key.Denot × List g.row.J-Value.Denot)}) c.deref.ensures.value
    ∙ c.in_ok-parts.ensures.groups.2.count

pub returns-clause-files : goal.returns-clause-files
returns-clause-files g c r l =
    let all = computation g.J.Key.Ord.cmp g.J.Key.Wire.codec g.J.Value.Wire.codec g.J.Job.functions in
    let groups = c.in_ok-parts.ensures.groups in
    file_gathered all (λ (file : Vec ℕ Global). file.items) c.in_ok-files.files.items c.in_ok-parts.parts.items c.args.reduces r groups.0
    (c.in_ok-files.ensures ∙ ap (map (flat_map (key_lines all))) c.deref.ensures.value) groups.2 l
    ∙ ap (option_map (λ ps. text_of all (part_of all c.args.reduces r ps))) (sym groups.1)
