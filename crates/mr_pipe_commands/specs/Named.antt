-- What `judge` and `recovery` do with inputs by their names: files, and standard input, whose name is `-`. Of an input nothing may be known, as of a file. Our own profile.
use Rattle.std.specs.Prelude.{◌≡◌, ◌<◌, ◌^◌, ◌⊎◌, ℕ, List, [], ◌∷◌, ◌++◌, length, Option, IfSome}
use Rattle.std.specs.Io.KnownBytes.{Keeps}
use Rattle.mr_pipe.specs.Status.{status_of}
use Rattle.mr_pipe.specs.declared.fault.PipeFault.{PipeFault}
use Rattle.mr_pipe.specs.declared.form.Form.{Form}
use Rattle.mr_recover.specs.declared.plan.Staging.{Staging}
use Rattle.mr_judge.specs.Program as judge
use Rattle.mr_recover_plan.specs.Program as plan

-- the bytes of inputs by their names
abbrev pub Known : Type 0
Known = List ℕ → Option (List ℕ)

-- an input has more bytes than are read
abbrev pub IsTooLong : Known → List ℕ → Type 0
IsTooLong known name = IfSome (known name) (λ all. 2 ^ 24 < length all)

-- these are the bytes of the names, all of each, in their order
abbrev pub AreBytesOf : Known → (names segments : List (List ℕ)) → Type 0
AreBytesOf known [] [] = Unit {0}
AreBytesOf known [] (bytes ∷ segments) = ⊥
AreBytesOf known (name ∷ names) [] = ⊥
AreBytesOf known (name ∷ names) (bytes ∷ segments) = IfSome (known name) (λ all. bytes ≡ all) × AreBytesOf known names segments

-- the exit status is that of the judgement of all bytes of the input, and what was written is said of it
abbrev pub JudgesNamed : Known → Form → List ℕ → (was now : Option (List ℕ)) → ℕ → Type 0
JudgesNamed known form name was now status = judge.Runs form (known name) was now status

-- the first of the names that has too many bytes
pub record FirstTooLong (known : Known) (names : List (List ℕ)) : Type 0 where
  pub before : List (List ℕ)
  pub name : List ℕ
  pub after : List (List ℕ)
  pub are : names ≡ before ++ name ∷ after
  pub read : (segments : List (List ℕ)) × AreBytesOf known before segments
  pub long : IsTooLong known name

-- The exit status is that of the plan for all bytes of each input, and what was written is said of it; or one has too many bytes (3), or a stream or the memory failed. Then nothing
-- was written, unless it was the plan that could not be.
abbrev pub RecoversNamed : Known → Form → (names : List (List ℕ)) → Staging → (was now : Option (List ℕ)) → ℕ → Type 0
RecoversNamed known form names staging was now status =
    ((segments : List (List ℕ)) × AreBytesOf known names segments × plan.Runs form segments staging was now status)
    ⊎ (((status ≡ 3) × FirstTooLong known names × Keeps was now)
    ⊎ ((fault : PipeFault) × (status ≡ status_of fault) × Keeps was now))
