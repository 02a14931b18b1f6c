use native.Mathlib.Omega.{arith}
use Rattle.home.proofs.HomeQuotes.{passed_none, passed_all, passed_home, named_bid, named_offer, passed_neither}
use Rattle.home.proofs.lowest_named.Goals as goal

pub loop-y-init : goal.loop-y-init
loop-y-init g c = λ kind tests. passed_none _ _ _ kind _

pub loop-y-preserved-then-y-home : goal.loop-y-preserved-then-y-home
loop-y-preserved-then-y-home g c = λ kind tests. passed_home _ _ _ kind _ _ (c.loop-y.invariant kind tests) (omega arith) c.if-y-home.true

pub returns-then-test : goal.returns-then-test
returns-then-test g c = λ kind tests.
    named_bid _ _ _ kind _ _ (c.loop-y.invariant kind tests) (omega arith) c.requires.0 c.requires.1 c.if-y-home.false _ c.place-k.ensures _ tests _ c.test.ensures c.if-test.true _ (omega arith)

pub returns-then-test-2 : goal.returns-then-test-2
returns-then-test-2 g c = λ kind tests.
    named_offer _ _ _ kind _ _ (c.loop-y.invariant kind tests) (omega arith) c.requires.0 c.requires.1 c.if-y-home.false _ c.place-k.ensures _ tests _ c.test.ensures c.if-test.false _
    c.test-in-loop-y.ensures c.if-test-2.true _ (omega arith)

pub loop-y-preserved : goal.loop-y-preserved
loop-y-preserved g c = λ kind tests.
    passed_neither _ _ _ kind _ _ (c.loop-y.invariant kind tests) (omega arith) c.requires.0 c.requires.1 c.if-y-home.false _ c.place-k.ensures _ tests _ c.test.ensures c.if-test.false _
    c.test-in-loop-y.ensures c.if-test-2.false

pub returns : goal.returns
returns g c = λ kind tests. passed_all _ _ _ kind _ _ (c.loop-y.invariant kind tests) (omega arith)
