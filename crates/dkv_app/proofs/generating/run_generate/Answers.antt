use Rattle.dkv_app.proofs.GeneratedFrames.{are_the_frames}
use Rattle.dkv_app.proofs.generating.run_generate.Goals as goal

pub returns-in-Ok-clause-frames : goal.returns-in-Ok-clause-frames
returns-in-Ok-clause-frames g c = are_the_frames c.args.number

pub returns-in-Err-WriteFault-clause-frames : goal.returns-in-Err-WriteFault-clause-frames
returns-in-Err-WriteFault-clause-frames g c = are_the_frames c.args.number

pub returns-in-Err-NoMemory-clause-frames : goal.returns-in-Err-NoMemory-clause-frames
returns-in-Err-NoMemory-clause-frames g c = are_the_frames c.args.number
