-- Read Both first: all clauses hold just where the image is sound. Verdict: the verdict from what a test finds. Order: the table of last
-- entries decides the order clause. The others go from words to lists: Lists, Parts, ReadOut, Laying, Levels. Stepwise: laws of a loop
-- that steps over words by hand.
pub mod Lists
pub mod Parts
pub mod Order
pub mod ReadOut
pub mod Laying
pub mod Levels
pub mod Both
pub mod Verdict
pub mod Stepwise
