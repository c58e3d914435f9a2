-- What the answer of a read means.
use Rattle.std.specs.Prelude.{Bool, true, false, cond, ℕ, Option, Some, None, Result, Ok, Err}
use Rattle.std.specs.IoError.{error_kind}
use Rattle.std.specs.declared.io.Error.{Error}
use Rattle.std.specs.declared.io.ErrorKind.{ErrorKind}
use Rattle.std.specs.declared.io.ErrorKind.TheVariants as kind

-- the error of a call that a signal interrupted (EINTR)
abbrev pub interrupts : ErrorKind → Bool
interrupts kind.Interrupted = true
interrupts k = false

-- the bytes that came, which are none at the end alone; nothing yet after an interruption; an error is a read that failed
abbrev pub came_of : Result ℕ Error → Result (Option ℕ) Error
came_of (Ok n) = Ok (Some n)
came_of (Err e) = cond (interrupts (error_kind e)) (Ok None) (Err e)
