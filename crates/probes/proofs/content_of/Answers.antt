-- `probes::content_of` meets its contract, by its test.
use mathlib.Core.Path.{sym, ap, ◌∙◌}
use mathlib.Core.Bool.{Bool, cond}
use Rattle.probes.specs.Contents.{Content, Wrong, ten_thousandths, content_of}
use Rattle.probes.proofs.content_of.Goals as goal

pub ten_thousandths-requires : goal.ten_thousandths-requires
ten_thousandths-requires c = sym c.is_content.ensures ∙ c.if-is_content.true

pub returns-then-is_content : goal.returns-then-is_content
unfolding content_of
returns-then-is_content c = ap Content c.ten_thousandths.ensures
    ∙ sym (ap (λ (b : Bool). cond b (Content (ten_thousandths c.args.x)) Wrong) (sym c.is_content.ensures ∙ c.if-is_content.true))

pub returns : goal.returns
unfolding content_of
returns c = sym (ap (λ (b : Bool). cond b (Content (ten_thousandths c.args.x)) Wrong) (sym c.is_content.ensures ∙ c.if-is_content.false))
