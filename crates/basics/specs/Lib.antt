-- What no layer owns: a choice by a test, the papers' limits, the first check that failed, lists by their places, sums of first terms.
pub mod Pick
pub mod Limits
pub mod Checks
pub mod Refused
pub mod Tables
pub mod Series
