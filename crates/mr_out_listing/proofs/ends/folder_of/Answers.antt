use Rattle.std.proofs.Common.{◌≡◌, ◌≢◌, ◌<◌, ◌-◌, ◌==◌, ℕ, suc, false, [], length, take, get_or, refl, sym, ap, ◌∙◌, arith, rules, ne_eqb}
use Rattle.mr_out_listing.specs.Reading.{folder_of}
use Rattle.mr_out_listing.proofs.Walks.{folder-step, folder-stop}
use Rattle.mr_out_listing.proofs.ends.folder_of.Goals as goal
use Rattle.mr_out_listing.proofs.ends.folder_of.Goals.{then-loop-len-test+else-path-len-ne47, else-loop-len-test}

pub loop-len-preserved : goal.loop-len-preserved
loop-len-preserved c =
    let n = c.loop-len.len in
    let path = c.args.path.now in
    let one : n ≡ suc (n - 1) = omega arith in
    let within : n - 1 < length path = omega arith in
    let other : get_or path (n - 1) 0 ≢ 47 = search rules in
    record {
      within = omega arith;
      left = sym (folder-step path (n - 1) within (ne_eqb (get_or path (n - 1) 0) 47 other)) ∙ ap (λ m. folder_of (take m path)) (sym one) ∙ c.loop-len.invariant.left;
    }

pub returns : goal.returns
returns c =
    let n = c.loop-len.len in
    let path = c.args.path.now in
    elim c.loop-len-test.branch [
      | then-loop-len-test+else-path-len-ne47 w ↦
          let one : n ≡ suc (n - 1) = omega arith in
          let within : n - 1 < length path = omega arith in
          let slash : get_or path (n - 1) 0 ≡ 47 = search rules in
          ap (λ m. take m path) one ∙ sym (folder-stop path (n - 1) within slash) ∙ ap (λ m. folder_of (take m path)) (sym one) ∙ c.loop-len.invariant.left
      | else-loop-len-test w ↦
          let none : n ≡ 0 = omega arith in
          ap (λ m. take m path) none ∙ ap (λ m. folder_of (take m path)) (sym none) ∙ c.loop-len.invariant.left
    ]
