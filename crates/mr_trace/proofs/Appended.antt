-- What calls added to a text in turn, each a word and what stands behind it, as one text.
use Rattle.std.proofs.Common.{◌≡◌, ◌++◌, ◌∙◌, ℕ, List, Result, Ok, Err, append_assoc}
use Rattle.std.specs.Prelude.{OnOk}

pub on_ok : {A E P Q : Type 0} (r : Result A E) → OnOk r P → (P → Q) → OnOk r Q
on_ok (Ok x) p f = f p
on_ok (Err e) p f = p

pub one : (o w a : List ℕ) (rest : List ℕ) → o ++ w ++ a ++ rest ≡ o ++ (w ++ (a ++ rest))
one o w a rest = append_assoc (o ++ w) a rest ∙ append_assoc o w (a ++ rest)

pub two : (o w a x b : List ℕ) → o ++ w ++ a ++ x ++ b ≡ o ++ (w ++ (a ++ (x ++ b)))
two o w a x b = append_assoc (o ++ w ++ a) x b ∙ one o w a (x ++ b)

pub three : (o w a x b y d : List ℕ) → o ++ w ++ a ++ x ++ b ++ y ++ d ≡ o ++ (w ++ (a ++ (x ++ (b ++ (y ++ d)))))
three o w a x b y d = two (o ++ w ++ a) x b y d ∙ one o w a (x ++ (b ++ (y ++ d)))

pub four : (o w a x b y d z e : List ℕ) → o ++ w ++ a ++ x ++ b ++ y ++ d ++ z ++ e ≡ o ++ (w ++ (a ++ (x ++ (b ++ (y ++ (d ++ (z ++ e)))))))
four o w a x b y d z e = three (o ++ w ++ a) x b y d z e ∙ one o w a (x ++ (b ++ (y ++ (d ++ (z ++ e)))))

pub five : (o w a x b y d z e v f : List ℕ) → o ++ w ++ a ++ x ++ b ++ y ++ d ++ z ++ e ++ v ++ f ≡ o ++ (w ++ (a ++ (x ++ (b ++ (y ++ (d ++ (z ++ (e ++ (v ++ f)))))))))
five o w a x b y d z e v f = four (o ++ w ++ a) x b y d z e v f ∙ one o w a (x ++ (b ++ (y ++ (d ++ (z ++ (e ++ (v ++ f)))))))
