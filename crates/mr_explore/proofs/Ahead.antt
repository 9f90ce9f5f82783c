-- Packets that are looked at in turn.
use Rattle.std.proofs.Common.{◌≡◌, ◌+◌, ◌-◌, ◌<◌, ℕ, suc, Bool, true, sym, ap, ◌∙◌, arith}
use Rattle.std.specs.Prelude.{◌&&◌}
use Rattle.std.specs.List.{list_all, range_with_len}

module _ (test : ℕ → Bool) (i n : ℕ) where
  -- the first one, and those behind it
  first_left : i < n → list_all test (range_with_len i (n - i)) ≡ (test i && list_all test (range_with_len (i + 1) (n - (i + 1))))
  first_left less = ap (λ k. list_all test (range_with_len i k)) (let e : n - i ≡ suc (n - (i + 1)) = omega (arith, less) in e)

  pub one_passes : i < n → test i ≡ true → list_all test (range_with_len (i + 1) (n - (i + 1))) ≡ list_all test (range_with_len i (n - i))
  one_passes less is = sym (first_left less ∙ ap (λ b. b && list_all test (range_with_len (i + 1) (n - (i + 1)))) is)
