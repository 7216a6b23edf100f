use Rattle.std.proofs.Common.{◌≡◌, ◌++◌, ℕ, List, codes, decimal, ap, append_assoc, ◌∙◌}
use Rattle.std.proofs.lemmas.Result.{on_ok_weaker}
use Rattle.pcc_driver.specs.Reports.{sizes_text}
use Rattle.pcc_driver.proofs.report_lines.push_report.Goals as goal

-- words, and then a name and what stands behind it
named : (old mid new name slice rest : List ℕ) → mid ≡ old ++ codes "limit 22 Frame " → slice ≡ name
    → new ≡ mid ++ (slice ++ rest) → new ≡ old ++ (codes "limit 22 Frame " ++ (name ++ rest))
named old mid new name slice rest m n e =
    e ∙ (ap (λ (z : List ℕ). mid ++ (z ++ rest)) n
    ∙ (ap (λ (z : List ℕ). z ++ (name ++ rest)) m ∙ append_assoc old (codes "limit 22 Frame ") (name ++ rest)))

-- words, and then two numbers
sized : (old mid new sizes : List ℕ) → mid ≡ old ++ codes "limit 32 Board " → new ≡ mid ++ sizes
    → new ≡ old ++ (codes "limit 32 Board " ++ sizes)
sized old mid new sizes m e =
    e ∙ (ap (λ (z : List ℕ). z ++ sizes) m ∙ append_assoc old (codes "limit 32 Board ") sizes)

pub returns-in_ok-push_words-in-LargeFrame : goal.returns-in_ok-push_words-in-LargeFrame
returns-in_ok-push_words-in-LargeFrame c =
    rw c.in-LargeFrame.is (on_ok_weaker c.push_frame.result (λ e. named c.args.out.now.items
    c.push_words-in-LargeFrame.new.out.items c.push_frame.new.out.items c.in-LargeFrame.name.items
    c.as_slice.result.now (codes " " ++ decimal c.in-LargeFrame.bytes) c.in_ok-push_words-in-LargeFrame.ensures
    c.as_slice.ensures.value e) c.push_frame.ensures)

pub returns-in_ok-push_words-in-LargeBoard : goal.returns-in_ok-push_words-in-LargeBoard
returns-in_ok-push_words-in-LargeBoard c =
    rw c.in-LargeBoard.is (on_ok_weaker c.push_sizes.result (λ e. sized c.args.out.now.items
    c.push_words-in-LargeBoard.new.out.items c.push_sizes.new.out.items
    (sizes_text c.in-LargeBoard.areas c.in-LargeBoard.pieces) c.in_ok-push_words-in-LargeBoard.ensures e)
    c.push_sizes.ensures)
