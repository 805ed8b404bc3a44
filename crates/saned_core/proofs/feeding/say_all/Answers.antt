use Rattle.std.proofs.Common.{◌∙◌, ap, Option}
use Rattle.wire_message.specs.declared.message.Reply.{Reply}
use Rattle.saned_requests.specs.declared.request_answer.RequestAnswer.TheVariants.{Last}
use Rattle.saned_core.proofs.Saying.{one_said, two_said, two_cut, last_said, last_cut}
use Rattle.saned_core.proofs.feeding.say_all.Goals as goal

pub returns-in-One : goal.returns-in-One
returns-in-One c = rw c.in-One.is (one_said c.in-One.reply _ _ _ c.say.ensures.said c.say.ensures.unsaid)

pub returns-in-Standing : goal.returns-in-Standing
returns-in-Standing c = rw c.in-Two.is (two_said c.in-Two.first c.in-Two.second _ c.say-in-Two.new.replies _ _ (c.say-in-Two.ensures.said c.in-Standing.is) c.say-in-Standing.ensures.said c.say-in-Standing.ensures.unsaid)

pub returns-in-Over : goal.returns-in-Over
returns-in-Over c = rw c.in-Two.is (two_cut c.in-Two.first c.in-Two.second _ _ (c.say-in-Two.ensures.unsaid c.in-Over.is))

pub returns-in-Standing-say : goal.returns-in-Standing-say
returns-in-Standing-say c = rw (c.in-Last-Some.is ∙ ap (λ (o : Option Reply). Last o) c.in-Last-Some.field-0-is) (last_said c.in-Last-Some.reply _ _ (c.say-in-Last-Some.ensures.said c.in-Standing-say.is))

pub returns-in-Over-say : goal.returns-in-Over-say
returns-in-Over-say c = rw (c.in-Last-Some.is ∙ ap (λ (o : Option Reply). Last o) c.in-Last-Some.field-0-is) (last_cut c.in-Last-Some.reply _ _ (c.say-in-Last-Some.ensures.unsaid c.in-Over-say.is))
