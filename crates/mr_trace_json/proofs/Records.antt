-- The line of a record is that of its object. No member of what is told behind them is a float.
use Rattle.std.proofs.Common.{◌≡◌, ℕ, ◌∷◌, [], ◌++◌, false, refl, sym, ap, ◌∙◌}
use Rattle.serde_json.specs.View.{view}
use Rattle.serde_json.specs.Written.{has_float}
use Rattle.serde_json.specs.declared.value.Value.{Value}
use Rattle.mr_history.specs.declared.record.Record.{Record}
use Rattle.mr_history.specs.Line.{whole_line}
use Rattle.mr_history.proofs.Lines.{compact-value_of}
use Rattle.mr_trace_json.specs.Segments.{record_line, rest_object}

pub line_is : (r : Record) → whole_line r ≡ record_line r
line_is r = ap (λ text. text ++ 10 ∷ []) (sym (compact-value_of r))

pub rest_is_plain : (v : Value) (version torn : ℕ) → view v ≡ rest_object version torn → has_float (view v) ≡ false
rest_is_plain v version torn is = ap has_float is ∙ refl
