mod Pending
mod Sure
mod Playing
mod Cases
