use Rattle.loc_io.proofs.std_sink.StdSinkSink.write.Goals as goal

pub returns-in-Ok-clause-stream : goal.returns-in-Ok-clause-stream
returns-in-Ok-clause-stream g c = c.in-Ok.ensures.bytes
