use Rattle.std.proofs.Common.{◌≡◌, ap, ◌∙◌, arith}
use Rattle.cards.specs.Card.{Kind, kind_of, opened, card_in_form}
use Rattle.firstpass.specs.Passed.{open_of}
use Rattle.firstpass.proofs.Laws as laws
use Rattle.firstpass.proofs.card_fault.Goals as goal
use Rattle.firstpass.proofs.card_fault.Goals.{then-is_judged+else-not-blank_columns+else-not-is_numbered, else-is_judged}

pub returns-then-not-all_printable : goal.returns-then-not-all_printable
returns-then-not-all_printable c = laws.bad_byte _ _ _ c.if-not-all_printable.ensures

pub returns-then-card-gt-COLUMNS : goal.returns-then-card-gt-COLUMNS
returns-then-card-gt-COLUMNS c = laws.too_wide _ _ _ c.if-not-all_printable.ensures (omega arith)

pub returns-then-not-blank_columns : goal.returns-then-not-blank_columns
returns-then-not-blank_columns c = laws.bad_start _ _ _ c.if-not-all_printable.ensures (omega arith) c.if-is_judged.ensures c.if-not-blank_columns.ensures

pub returns-then-not-is_numbered : goal.returns-then-not-is_numbered
returns-then-not-is_numbered c =
    laws.bad_number _ _ _ c.if-not-all_printable.ensures (omega arith) c.if-is_judged.ensures c.if-not-blank_columns.ensures c.if-not-is_numbered.ensures

pub returns : goal.returns
returns c =
    let judged : opened c.args.n (kind_of c.args.card.now) (open_of c.args.hand) ≡ card_in_form c.args.n c.args.card.now (open_of c.args.hand) =
    elim c.if-is_judged.branch [
      | then-is_judged+else-not-blank_columns+else-not-is_numbered w ↦ laws.card_judged _ _ _ c.if-not-all_printable.ensures (omega arith) w.if-is_judged.ensures w.if-not-blank_columns.ensures w.if-not-is_numbered.ensures
      | else-is_judged w ↦ laws.comment_judged _ _ _ c.if-not-all_printable.ensures (omega arith) w.if-is_judged.ensures
    ] in
    c.opened.ensures ∙ ap (λ (k : Kind). opened c.args.n k (open_of c.args.hand)) c.kind_of.ensures ∙ judged
