-- The promise would not hold with S of the links that differ.
use Rattle.std.proofs.Common.{arith}
use Rattle.document.specs.Machine.{step_of}
use Rattle.document.specs.Table.{bytes}
use Rattle.promise.specs.Promise.{PromiseOf, basic}
use Rattle.promise.proofs.Demand.{text_promise}
use Rattle.promise.specs.Named.{l2}
use Rattle.promise.proofs.Named.{premises}
use Rattle.promise.specs.Refuted.{different_bound}
use Rattle.promise.proofs.Refuted.{computed, three_refuted}

pub different_links_refuted : PromiseOf (record { admits = basic.admits; bound = different_bound }) step_of → ⊥
different_links_refuted f =
    let j = premises.of_l2 in
    three_refuted _ computed.of_l2.three
    (text_promise (record { admits = basic.admits; bound = different_bound }) step_of f (bytes l2) j.read j.by_basic 4 (omega arith))
