-- Lines of fields that were read. Assumes nothing.
use mathlib.Core.Path.{◌≡◌, ◌∙◌, ap}
use mathlib.Core.List.{List}
use Prim.Native.Nat.{ℕ}
use Rattle.model.specs.Table.{device_byte, link_byte}
use Rattle.replay_text.specs.declared.line.Line.{Line}
use Rattle.replay_text.specs.Line.{line_of}
use Rattle.list_print.specs.Lines.{part_text, link_text}
use Rattle.list_program.specs.Lines.{device_line, link_line}

pub device_told : (t : List ℕ) (p : ℕ) {a b : ℕ} {l : Line} → l ≡ line_of (part_text a b) → a ≡ device_byte t 0 p → b ≡ device_byte t 1 p → l ≡ device_line t p
unfolding device_line
device_told t p {a} {b} e f g = e ∙ ap (λ (x : ℕ). line_of (part_text x b)) f ∙ ap (λ (x : ℕ). line_of (part_text (device_byte t 0 p) x)) g

pub link_told : (t : List ℕ) (i : ℕ) {a b c : ℕ} {l : Line} → l ≡ line_of (link_text a b c) → a ≡ link_byte t 0 i → b ≡ link_byte t 1 i → c ≡ link_byte t 2 i
    → l ≡ link_line t i
unfolding link_line
link_told t i {a} {b} {c} e f g h =
    e
    ∙ ap (λ (x : ℕ). line_of (link_text x b c)) f
    ∙ ap (λ (x : ℕ). line_of (link_text (link_byte t 0 i) x c)) g
    ∙ ap (λ (x : ℕ). line_of (link_text (link_byte t 0 i) (link_byte t 1 i) x)) h
