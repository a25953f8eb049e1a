-- The memory of a layout: the code of the image stands there, and jobs can be released on it.
use Rattle.std.proofs.Common.{◌^◌, ◌<◌, Ok}
use Rattle.visa_io.specs.ImageCode.{IsFilled, code_of_image}
use Rattle.visa_io.specs.declared.records.Image.{Image}
use Rattle.mips_ref.specs.Memory.{Flat}
use Rattle.flow_graph.specs.Code.{IsCode}
use Rattle.task_text.specs.declared.task.Task.{Task}
use Rattle.task_layout.specs.Layout.{IsLaidOut, IsLayout}
use Rattle.laid_code.specs.Bytes.{AreBytes}
use Rattle.laid_code.proofs.WholeCode.{code_laid_out}
use Rattle.admitted_jobs.specs.Ready.{IsReady}
use Rattle.admitted_jobs.proofs.Ready.{layout_ready}

is_laid : (t : Task) (i : Image) (m : Flat) → IsLayout t i (Ok m) → IsLaidOut t i m
unfolding IsLayout
is_laid t i m laid = laid

pub ready_laid : (t : Task) (i : Image) (m : Flat) → IsLayout t i (Ok m) → IsFilled i → AreBytes i.bytes → t.input_at < 2 ^ 32
    → IsReady t (code_of_image i) m
ready_laid t i m laid filled bytes word = layout_ready t i m (is_laid t i m laid) filled bytes word

pub code_laid : (t : Task) (i : Image) (m : Flat) → IsLayout t i (Ok m) → IsFilled i → IsCode (code_of_image i)
code_laid t i m laid filled = code_laid_out t i m (is_laid t i m laid) filled
