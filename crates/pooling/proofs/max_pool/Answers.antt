-- By cases on the verdict.
use Rattle.std.proofs.Common.{◌≡◌, Err, rules, sym, ◌∙◌, length}
use Rattle.call.proofs.Outcome.{refuse_answer, run_answer, refuse_leaves, run_leaves}
use Rattle.pooling.specs.Call.{pooled_value, pooled_index}
use Rattle.pooling.proofs.Accepted.{pool_fitting}
use Rattle.pooling.proofs.max_pool.Goals as goal

pub invariant_of-pooling : goal.invariant_of-pooling
invariant_of-pooling c =
    let a = c.args in
    let f = pool_fitting a.layer a.input.now (length a.values.now) (length a.indices.now) _ (sym c.check_pool.ensures ∙ c.in_ok-shape.was) in
    record { pooled = f.shape; input_len = f.input_length }

pub fill-requires : goal.fill-requires
fill-requires c =
    let a = c.args in
    let f = pool_fitting a.layer a.input.now (length a.values.now) (length a.indices.now) _ (sym c.check_pool.ensures ∙ c.in_ok-shape.was) in
    record { values_len = (f.values_length, f.indices_length) }

pub returns-in_err-shape : goal.returns-in_err-shape
returns-in_err-shape c =
    let a = c.args in
    let r : c.from_residual.result ≡ Err c.in_err-shape.field-0.0 = search rules in
    let e = sym c.check_pool.ensures ∙ c.in_err-shape.was in
    record {
      answer = r ∙ refuse_answer _ _ e;
      values = refuse_leaves _ (pooled_value a.input.now) a.values.now _ e;
      indices = refuse_leaves _ (pooled_index a.input.now) a.indices.now _ e;
    }

pub returns : goal.returns
returns c =
    let a = c.args in
    let e = sym c.check_pool.ensures ∙ c.in_ok-shape.was in
    record {
      answer = run_answer _ _ e;
      values = c.fill.ensures.values_after ∙ run_leaves _ (pooled_value a.input.now) a.values.now _ e;
      indices = c.fill.ensures.indices_after ∙ run_leaves _ (pooled_index a.input.now) a.indices.now _ e;
    }
