use Rattle.std.proofs.Common.{rules, ◌≡◌, ◌-◌, ◌∷◌, ◌++◌, ap, append_assoc, drop, length, sym, take, ◌∙◌}
use Rattle.std.proofs.lemmas.List.{take_rest}
use Rattle.std.specs.List.{flat_map, join_with_byte}
use Rattle.mr_sim_commands.proofs.committer.Joined.{first_and_rest}
use Rattle.mr_sim_commands.proofs.committer.listing.print_names.Goals as goal

pub returns-in_ok-extend_from_slice-in-len1-up : goal.returns-in_ok-extend_from_slice-in-len1-up
returns-in_ok-extend_from_slice-in-len1-up c =
    let first = c.as_bytes.result.now in
    let rest = take (length c.args.names.now - 1) (drop 1 c.args.names.now) in
    let beneath = flat_map (λ name. 47 ∷ name) rest in
    let split : c.args.names.now ≡ first ∷ drop 1 c.args.names.now = search rules in
    let cut : c.args.names.now ≡ first ∷ rest = split ∙ ap (λ names. first ∷ names) (sym (take_rest c.args.names.now 1)) in
    let names : join_with_byte 47 c.args.names.now ≡ first ++ beneath = ap (join_with_byte 47) cut ∙ first_and_rest 47 first rest in
    let front : c.extend_from_slice.new.self.items ≡ c.args.out.now.items ++ first = search rules in
    let whole : c.args.out.now.items ++ join_with_byte 47 c.args.names.now ≡ c.extend_from_slice.new.self.items ++ beneath =
    ap (λ text. c.args.out.now.items ++ text) names ∙ sym (append_assoc c.args.out.now.items first beneath) ∙ ap (λ text. text ++ beneath) (sym front) in
    rw whole c.print_beneath.ensures
