-- The model's answers as the comparison sees them: the refusal as document 01's number, all else as it is.
use Rattle.model.specs.declared.answers.Fault.{Fault}
use Rattle.model.specs.declared.answers.Reading.{Reading}
use Rattle.model.specs.declared.answers.Stepped.{Stepped}
use Rattle.model.specs.declared.answers.Ran.{Ran}
use Rattle.model.specs.Refusals.{refusal_number}
use Rattle.probe.specs.declared.ProbeFault.{ProbeFault}
use Rattle.probe.specs.declared.ProbeReading.{ProbeReading}
use Rattle.probe.specs.declared.ProbeStepped.{ProbeStepped}
use Rattle.probe.specs.declared.ProbeRan.{ProbeRan}

abbrev pub fault_numbers : Fault → ProbeFault
fault_numbers f = record { refusal = refusal_number f.refusal; line = f.line; field = f.field }

abbrev pub reading_numbers : Reading → ProbeReading
reading_numbers a = record { fault = fault_numbers a.fault; set = a.set }

abbrev pub stepped_numbers : Stepped → ProbeStepped
stepped_numbers a =
    record {
      fault = fault_numbers a.fault;
      next = a.next;
      sends = a.sends;
      sent = a.sent;
      deliveries = a.deliveries;
      delivered = a.delivered;
      drops = a.drops;
      dropped = a.dropped;
    }

abbrev pub ran_numbers : Ran → ProbeRan
ran_numbers a = record { fault = fault_numbers a.fault; last = a.last; delivered = a.delivered; dropped = a.dropped }
