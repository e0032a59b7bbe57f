use Rattle.cohere_inputs.proofs.saying.say_unread.Goals as goal

pub returns : goal.returns
returns g c = rw (← c.as_bytes.ensures.value) c.say.ensures
