use Rattle.cb_frames.proofs.Decoding.{answers_text, answers_fault, answers_found, answers_refused}
use Rattle.cb_frames.proofs.reading.decode.Goals as goal

pub returns-clause-text : goal.returns-clause-text
returns-clause-text c = answers_text c.args.bytes.now c.frame.result c.frame.ensures.bytes c.frame.ensures.exact

pub returns-clause-found : goal.returns-clause-found
returns-clause-found c f text = answers_found c.args.bytes.now c.frame.result f c.frame.ensures.bytes c.frame.ensures.exact text

pub returns-clause-fault : goal.returns-clause-fault
returns-clause-fault c fault first = answers_fault c.args.bytes.now c.frame.result fault c.frame.ensures.bytes c.frame.ensures.exact first

pub returns-clause-refused : goal.returns-clause-refused
returns-clause-refused c = answers_refused c.args.bytes.now c.frame.result c.frame.ensures.bytes c.frame.ensures.exact
