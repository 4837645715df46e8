mod Ordered
mod Marking
mod Ending
mod Searching
mod Beginning
